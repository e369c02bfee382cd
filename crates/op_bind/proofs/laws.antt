pub mod UnseenLaw
