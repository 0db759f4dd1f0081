pub mod PlainMap
