pub mod MaskLemmas
