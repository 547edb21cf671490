-- Document 01's starred cases: one table, one statement, proved of the definitions by computing.
pub mod Shaped
pub mod Script
pub mod Dependents
pub mod Table
pub mod Accepted
pub mod Refused
pub mod Images
