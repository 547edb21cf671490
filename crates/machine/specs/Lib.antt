-- Calls on bytes. To read: what a call replies (`Calls`) and what the questions answer (`Asks`); the three demands, of byte strings in and out (`Demands`); that any two
-- permitted outcomes agree (`Agree`). The rest are lemmas: the code against the definitions (`Called`, `Asked`), what
-- a net writes (`Written`), the net after a call (`After`), one call (`Bytes`), each code (`Codes`), what the code does is the theory's outcome (`Served`), and so on the lent
-- bytes (`OnBytes`).
pub mod Calls
pub mod Asks
pub mod Demands
pub mod Agree
pub mod Served
pub mod Called
pub mod Written
pub mod After
pub mod Bytes
pub mod Codes
pub mod OnBytes
pub mod Asked
