mod Moving
mod Passing
