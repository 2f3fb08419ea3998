mod Constants
mod DrawLemmas
mod Loops
