-- The truth of a history.
pub use Rattle.history_core.specs.Truth.{truth}
