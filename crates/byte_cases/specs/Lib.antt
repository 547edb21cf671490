-- Document 01's starred cases on bytes. To read: calls in a row on bytes, and the law that they are the theory's (`Run`); the table's statement
-- (`Table`). The rest are lemmas: the nets that the cases start from are ones that an image holds (`Starts`).
pub mod Run
pub mod Starts
pub mod Table
