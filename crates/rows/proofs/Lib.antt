pub mod SixKinds
