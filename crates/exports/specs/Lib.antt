-- The calls for other languages. To read: the word that each of them returns (`Packed`), and that its bits give back what was packed (`Unpacked`).
pub mod Packed
pub mod Unpacked
