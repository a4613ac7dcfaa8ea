pub mod LeastLaws
pub mod RuleLaws
