-- Two ends of one queue are closed together.
use Rattle.std.proofs.Common.{◌≡◌, ℕ, ◌<◌, List, length, slice_index_or, slice_set, ap, ◌∙◌}
use Rattle.std.proofs.lemmas.List.{get_or_default}
use Rattle.buffer_queue.specs.Window.{Window}
use Rattle.buffer_ends.specs.Local.{Answers}
use Rattle.buffer_ends.specs.Sides.{Side}
use Rattle.buffer_ends.specs.Borders.{HasAt, HasEnd, ClosesSides, WasClosed}

pub end_missing : (sides : List Side) (b : ℕ) (w : Window) → HasEnd sides b w → ((k : ℕ) (d : Side) → k < length sides → (slice_index_or sides k d).buffer ≡ b → ⊥) → ⊥
end_missing sides b w e none = let d : Side = record { buffer = b; window = w } in none e.place d e.at.within (ap (λ (s : Side). s.buffer) (e.at.is d))

has_at : (sides : List Side) (b x : ℕ) (s : Side) → x < length sides → ((d : Side) → (slice_index_or sides x d).buffer ≡ b) → HasAt sides x (record { buffer = b; window = (slice_index_or sides x s).window })
has_at sides b x s within is = record {
  within = within;
  is = λ d. get_or_default sides x d s within ∙ (λ i. record { buffer = is s i; window = (slice_index_or sides x s).window });
}

pub closed_at : (puts takes puts' takes' : List Side) (b x y : ℕ) (s t : Side) (log : Answers) → x < length puts → y < length takes
    → ((d : Side) → (slice_index_or puts x d).buffer ≡ b) → ((d : Side) → (slice_index_or takes y d).buffer ≡ b)
    → puts' ≡ slice_set puts x s → takes' ≡ slice_set takes y t → ((d e : Side) → ClosesSides (slice_index_or puts x d) (slice_index_or takes y e) s t log)
    → WasClosed b puts puts' takes takes' log
closed_at puts takes puts' takes' b x y s t log within in_takes put_is take_is p q closes =
    let c = closes s t in record {
      put = (slice_index_or puts x s).window;
      take = (slice_index_or takes y t).window;
      next_put = s.window;
      next_take = t.window;
      puts_turned = record { place = x; at = has_at puts b x s within put_is; are = p ∙ ap (λ (e : Side). slice_set puts x e) (λ i. record { buffer = (c.put_buffer ∙ put_is s) i; window = s.window }) };
      takes_turned = record { place = y; at = has_at takes b y t in_takes take_is; are = q ∙ ap (λ (e : Side). slice_set takes y e) (λ i. record { buffer = (c.take_buffer ∙ take_is t) i; window = t.window }) };
      closes = c.closes;
      log_puts = c.log_puts;
      log_takes = c.log_takes;
    }
