mod Cut
mod WordLemmas
mod LineLemmas
mod FunctionLemmas
mod ImageLemmas
mod Listed
mod TextLemmas
mod Pushed
