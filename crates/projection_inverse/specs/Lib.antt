-- What the inverse's contracts cite beside the worked values.
pub mod Answers
