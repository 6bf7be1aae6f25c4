pub mod Fronts
pub mod LineSteps
pub mod TokenSteps
pub mod DigitSteps
pub mod LineLaws
pub mod TokenLaws
