mod Ended
mod Undefined
