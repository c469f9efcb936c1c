pub mod Controller
pub mod ControllerLaws
