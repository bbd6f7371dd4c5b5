pub mod SequenceSet
pub mod PictureSet
pub mod PictureSteps
pub mod PictureParts
