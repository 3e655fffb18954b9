pub mod ReadEnds
