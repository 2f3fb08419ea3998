pub mod WordFile
