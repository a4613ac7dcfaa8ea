pub mod FormLaws
pub mod BackLaws
pub mod CodeLaws
pub mod LoadLaws
pub mod StoreLaws
