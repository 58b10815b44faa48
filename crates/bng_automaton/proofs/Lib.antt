pub mod TableLaws
pub mod TimerLaws
pub mod StepLaws
