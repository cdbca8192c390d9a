pub mod Operand
