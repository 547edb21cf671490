-- What a process's fields stand for, where it acts, and when its template meets a tuple (004, Table III).
pub mod Evaluate
pub mod Match
pub mod Bound
pub mod Table
