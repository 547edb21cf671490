-- Laws that know nothing of the machine. Every loop and every set of the house cites these.
pub mod Choice
pub mod Lists
pub mod Checks
pub mod Parts
pub mod Words
pub mod Sets
