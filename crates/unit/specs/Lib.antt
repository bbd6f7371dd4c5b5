pub mod Answer
pub mod Begin
pub mod Unit
pub mod Head
pub mod Known
pub mod Into
