-- The sending side: `laws::window_is_sum_of_calls`, `laws::resizes_stay_in_range`.
pub mod WindowLemmas
-- The receiving side: `laws::receipt_is_sum_of_calls`.
pub mod ReceiptLemmas
