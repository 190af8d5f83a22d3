-- The finite map that a core represents, under the name that its users know.
pub use Rattle.papaya_core_timeline.specs.Content.{content, map_in, map_of}
