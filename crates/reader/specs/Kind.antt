-- For the code: what an array holds.
pub data Kind : Type 0 where
  Capture : Kind
  Annotation : Kind
