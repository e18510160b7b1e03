pub mod CallerLemmas
mod CutLemmas
mod LaneLemmas
mod LinkingLemmas
mod NodeLemmas
mod SpellLemmas
mod WovenLemmas
