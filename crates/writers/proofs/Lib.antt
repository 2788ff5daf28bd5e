pub mod PutLaws
pub mod EachLaws
