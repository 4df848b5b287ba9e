-- Laws of a settle.
pub mod SettleTurns
pub mod SettleAnswers
