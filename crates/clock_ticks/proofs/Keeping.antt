-- An engine without ticks that begins to keep its marks.
use Rattle.std.proofs.Common.{◌≡◌, ◌∙◌, ℕ, true, List, sym}
use Rattle.frame_core.specs.Calls.{Answer}
use Rattle.clock_ticks.specs.declared.engine.EngineParts.{EngineParts}
use Rattle.clock_ticks.specs.Engines.{EngineStands}

abbrev pub keeping : EngineParts → EngineParts
keeping parts = record {
  scene = parts.scene;
  clock = parts.clock;
  start = parts.start;
  own = parts.own;
  state = parts.state;
  ports = parts.ports;
  feeds = parts.feeds;
  cues = record { keeping = true; lists = parts.cues.lists };
  ticks = parts.ticks;
  stopped = parts.stopped;
}

pub stands_keeping : (parts : EngineParts) (ticks : ℕ) (answers : ℕ → List Answer) → parts.ticks ≡ 0 → EngineStands parts ticks answers → EngineStands (keeping parts) ticks answers
stands_keeping parts ticks answers none stands = record {
  made = stands.made;
  runs = stands.runs;
  others = λ buffer unread. stands.others buffer (record { none = unread.none });
  state = stands.state;
  gaps_are = stands.gaps_are;
  cues_are = λ new rest k port list at_port at_list. stands.cues_are (λ e. sym stands.made ∙ none) rest k port list at_port at_list;
}
