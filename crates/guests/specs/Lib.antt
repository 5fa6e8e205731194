pub mod Each
pub mod EachTokenCutterLemmas
