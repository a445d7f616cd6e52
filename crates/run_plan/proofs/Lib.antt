mod Words
pub mod NearLaws
pub mod FileLengths
pub mod FollowLaws
pub mod SoloLaws
pub mod MeetLaws
pub mod CountSteps
pub mod EndLaws
pub mod CallerLaws
