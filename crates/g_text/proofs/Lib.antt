mod EdgeLemmas
mod TextLemmas
