mod Trees
mod Functions
mod Statements
