-- Worked rows at both sides of each border, and programs.
mod Borders
mod Sources
