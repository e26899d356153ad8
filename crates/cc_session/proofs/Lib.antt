mod Back
mod Again
mod Earlier
mod FromParts
mod Unstale
