pub mod SeenLaws
