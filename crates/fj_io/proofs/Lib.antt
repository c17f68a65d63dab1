pub mod KnownBytes
