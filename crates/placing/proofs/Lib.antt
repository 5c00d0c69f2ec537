pub mod AllNear
