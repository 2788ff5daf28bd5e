pub mod AlignLaws
