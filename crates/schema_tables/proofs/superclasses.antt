pub mod HierarchyLemmas
pub mod SuperclassLemmas
