mod Lefts
mod Steps
