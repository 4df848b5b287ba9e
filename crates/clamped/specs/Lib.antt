-- Document 01, "Expressions": each operation works on whole numbers, then clamps.
pub mod Clamp
