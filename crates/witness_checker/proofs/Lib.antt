pub mod HopLemmas
