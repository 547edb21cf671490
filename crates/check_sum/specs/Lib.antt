-- CRC-32, as it is written by hand (`Crc`).
pub mod Crc
