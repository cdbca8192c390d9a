-- A station that is accepted has a meaning.
use Rattle.std.proofs.Common.{◌<◌, [], refl}
use Rattle.liq_base.specs.Files.{Files}
use Rattle.plan_core.specs.Plans.{IsWellFormed}
use Rattle.stations.specs.Findings.{IsRenderable, rules_of}
use Rattle.run_records.specs.Records.{Run}
use Rattle.stations.specs.Stations.{Station, bare, setting_of_run}
use Rattle.stream_meaning.specs.Settings.{IsSetting}
use Rattle.stations.proofs.Walked.{leaves_long, singles_have_one}

pub is_setting : (files : Files) (station : Station) (run : Run) → IsWellFormed station.plan
    → IsRenderable files station.plan station.ticks station.library station.clocks → station.start < 604800
    → IsSetting (setting_of_run station run) station.clocks
is_setting files station run plan accepted start =
    let loaded = accepted.clocked.safe.loaded in
    record {
      plan = plan;
      map = accepted.clocked.map;
      each = refl;
      library = accepted.sounds;
      leaves = leaves_long (rules_of station.plan) files station.plan.nodes station.library loaded;
      singles = singles_have_one (rules_of station.plan) files station.plan.nodes station.library loaded;
      start = start;
    }

-- so it has before its buffers have answered
pub is_bare_setting : (files : Files) (station : Station) → IsWellFormed station.plan
    → IsRenderable files station.plan station.ticks station.library station.clocks → station.start < 604800 → IsSetting (bare station) station.clocks
is_bare_setting files station plan accepted start =
    let is = is_setting files station (record { buffers = [] }) plan accepted start in
    record { plan = is.plan; map = is.map; each = is.each; library = is.library; leaves = is.leaves; singles = is.singles; start = is.start }
