-- A step of a net in range leaves a net in range, and a value of the code's types. Slots: which slots are in range, and shaped; Written: a change,
-- written, keeps what holds of every slot; Forward and Backward: the two steps.
pub mod Slots
pub mod Written
pub mod Forward
pub mod Backward
