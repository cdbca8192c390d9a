-- The windows of the buffers between clocks are closed one after another.
use Rattle.std.proofs.Common.{◌≡◌, ◌≢◌, ℕ, ◌<◌, ◌≤◌, ◌+◌, List, length, map, get_or, set, slice_index_or, sym, refl, ap, ◌∙◌, subst, arith, inl, inr, get_or-set_same, get_or-set_other, length-set}
use Rattle.std.proofs.lemmas.List.{get_or_default}
use Rattle.frame_core.specs.Legal.{Legal}
use Rattle.buffer_queue.specs.Window.{Window, opened, capacity_of, is_chunk}
use Rattle.buffer_ends.specs.Local.{Answers}
use Rattle.buffer_ends.specs.Sides.{Side}
use Rattle.buffer_ends.specs.Borders.{HasEnd, WasClosed, HaveEnds}
use Rattle.buffer_ends.specs.declared.thread_taps.ThreadTaps.{ThreadTaps}
use Rattle.buffer_sides.specs.Logs.{told as told_of}
use Rattle.clock_threads.specs.declared.task.Task.{Task}
use Rattle.clock_threads.specs.declared.wires.Wire.{Wire}
use Rattle.clock_threads.specs.Wires.{wire_at}
use Rattle.clock_threads.specs.Ends.{puts_of, takes_of, SameButEnds, WasLent, WasPutBack, GiverClosed, JoinClosed, JoinRan, JoinTurned, SameTasks}
use Rattle.clock_threads.proofs.Sets.{same_or_other, turned_here, turned_other, turned_many, turned_buffers, one_window, set_twice, swapped}

module _ {S R : Type 0} where
  same_but_refl : (x : Task S (ThreadTaps R)) → SameButEnds x x
  same_but_refl x = record { engine = refl; local = refl }

  pub same_tasks_refl : (xs : List (Task S (ThreadTaps R))) → SameTasks xs xs
  same_tasks_refl xs = record { many = refl; same = λ k d h. same_but_refl (slice_index_or xs k d); puts_many = λ k d h. refl; puts = λ k p d e h. refl; takes_many = λ k d h. refl; takes = λ k p d e h. refl }

  pub same_tasks_then : (xs ys zs : List (Task S (ThreadTaps R))) → SameTasks xs ys → SameTasks ys zs → SameTasks xs zs
  same_tasks_then xs ys zs a b = record {
    many = b.many ∙ a.many;
    same = λ k d h. let x = a.same k d h in let y = b.same k d (omega (arith, h, a.many)) in record { engine = y.engine ∙ x.engine; local = y.local ∙ x.local };
    puts_many = λ k d h. b.puts_many k d (omega (arith, h, a.many)) ∙ a.puts_many k d h;
    puts = λ k p d e h. b.puts k p d e (omega (arith, h, a.many)) ∙ a.puts k p d e h;
    takes_many = λ k d h. b.takes_many k d (omega (arith, h, a.many)) ∙ a.takes_many k d h;
    takes = λ k p d e h. b.takes k p d e (omega (arith, h, a.many)) ∙ a.takes k p d e h;
  }

  module _ (from to b : ℕ) (old new : List (Task S (ThreadTaps R))) (log : Answers) (from_in : from < length old) (to_in : to < length old) (apart : from ≢ to) (c : JoinClosed from to b old new log) where
    pub closed_many : length new ≡ length old
    closed_many = ap length c.are ∙ length-set (set old from c.next_giver) to c.next_taker ∙ length-set old from c.next_giver

    at_to : (d : Task S (ThreadTaps R)) → slice_index_or new to d ≡ c.next_taker
    at_to d = ap (λ l. get_or l to d) c.are ∙ get_or-set_same (set old from c.next_giver) to c.next_taker d (omega (arith, to_in, length-set old from c.next_giver))

    at_from : (d : Task S (ThreadTaps R)) → slice_index_or new from d ≡ c.next_giver
    at_from d = ap (λ l. get_or l from d) c.are ∙ get_or-set_other (set old from c.next_giver) to from c.next_taker d apart ∙ get_or-set_same old from c.next_giver d from_in

    at_else : (k : ℕ) (d : Task S (ThreadTaps R)) → k ≢ from → k ≢ to → slice_index_or new k d ≡ slice_index_or old k d
    at_else k d n m = ap (λ l. get_or l k d) c.are ∙ get_or-set_other (set old from c.next_giver) to k c.next_taker d m ∙ get_or-set_other old from k c.next_giver d n

    -- what holds of the giver before and after, of the taker, and of each task with itself, holds of each task
    each : (P : Task S (ThreadTaps R) → Task S (ThreadTaps R) → Type 0) → P c.giver c.next_giver → P c.taker c.next_taker → ((x : Task S (ThreadTaps R)) → P x x)
        → (k : ℕ) (d : Task S (ThreadTaps R)) → P (slice_index_or old k d) (slice_index_or new k d)
    each P giver taker itself k d = elim (same_or_other k from) [
      | inl e ↦ subst (λ n. P (slice_index_or old n d) (slice_index_or new n d)) (sym e) (subst (λ (z : Task S (ThreadTaps R) × Task S (ThreadTaps R)). P z.0 z.1) (λ i. (sym (c.gives d) i, sym (at_from d) i)) giver)
      | inr n ↦ (elim (same_or_other k to) [
        | inl e ↦ subst (λ n. P (slice_index_or old n d) (slice_index_or new n d)) (sym e) (subst (λ (z : Task S (ThreadTaps R) × Task S (ThreadTaps R)). P z.0 z.1) (λ i. (sym (c.takes d) i, sym (at_to d) i)) taker)
        | inr m ↦ subst (P (slice_index_or old k d)) (sym (at_else k d n m)) (itself (slice_index_or old k d))
      ])
    ]

    abbrev SameEnds : Task S (ThreadTaps R) → Task S (ThreadTaps R) → Type 0
    SameEnds x y = SameButEnds x y × (length (puts_of y) ≡ length (puts_of x)) × ((p : ℕ) (e : Side) → (slice_index_or (puts_of y) p e).buffer ≡ (slice_index_or (puts_of x) p e).buffer)
        × (length (takes_of y) ≡ length (takes_of x)) × ((p : ℕ) (e : Side) → (slice_index_or (takes_of y) p e).buffer ≡ (slice_index_or (takes_of x) p e).buffer)

    ends_same : (k : ℕ) (d : Task S (ThreadTaps R)) → SameEnds (slice_index_or old k d) (slice_index_or new k d)
    ends_same k d =
        let w = c.tasks.closed in
        each SameEnds
        (c.tasks.giver_same, turned_many _ _ _ _ _ w.puts_turned, (λ p e. turned_buffers _ _ _ _ _ p e w.puts_turned), ap length c.tasks.giver_takes, (λ p e. ap (λ l. (slice_index_or l p e).buffer) c.tasks.giver_takes))
        (c.tasks.taker_same, ap length c.tasks.taker_puts, (λ p e. ap (λ l. (slice_index_or l p e).buffer) c.tasks.taker_puts), turned_many _ _ _ _ _ w.takes_turned, (λ p e. turned_buffers _ _ _ _ _ p e w.takes_turned))
        (λ x. (same_but_refl x, refl, (λ p e. refl), refl, (λ p e. refl))) k d

    pub closed_same : SameTasks old new
    closed_same = record {
      many = closed_many;
      same = λ k d h. (ends_same k d).0;
      puts_many = λ k d h. (ends_same k d).1;
      puts = λ k p d e h. (ends_same k d).2 p e;
      takes_many = λ k d h. (ends_same k d).3;
      takes = λ k p d e h. (ends_same k d).4 p e;
    }

    -- the ends of other buffers
    pub puts_else : (x : ℕ) (w : Window) → x ≢ b → (k : ℕ) (d : Task S (ThreadTaps R)) → HasEnd (puts_of (slice_index_or old k d)) x w → HasEnd (puts_of (slice_index_or new k d)) x w
    puts_else x w n k d = each (λ y z. HasEnd (puts_of y) x w → HasEnd (puts_of z) x w)
        (λ e. turned_other _ _ _ _ _ _ _ n c.tasks.closed.puts_turned e) (λ e. subst (λ l. HasEnd l x w) (sym c.tasks.taker_puts) e) (λ y e. e) k d

    pub takes_else : (x : ℕ) (w : Window) → x ≢ b → (k : ℕ) (d : Task S (ThreadTaps R)) → HasEnd (takes_of (slice_index_or old k d)) x w → HasEnd (takes_of (slice_index_or new k d)) x w
    takes_else x w n k d = each (λ y z. HasEnd (takes_of y) x w → HasEnd (takes_of z) x w)
        (λ e. subst (λ l. HasEnd l x w) (sym c.tasks.giver_takes) e) (λ e. turned_other _ _ _ _ _ _ _ n c.tasks.closed.takes_turned e) (λ y e. e) k d

    -- the buffer that was closed
    pub closed_here : (wire : Wire) (put take : Window) → wire.from ≡ from → wire.to ≡ to → JoinRan wire b put take old → JoinTurned wire b put take new
    closed_here wire put take f t ran =
        let w = c.tasks.closed in
        let p : put ≡ w.put = one_window (puts_of c.giver) b w.puts_turned.place put w.put c.giver.taps.falling.0
        (subst (λ x. HasEnd (puts_of x) b put) (ap (λ n. slice_index_or old n c.giver) f ∙ c.gives c.giver) (ran.put_end c.giver)) w.puts_turned.at in
        let q : take ≡ w.take = one_window (takes_of c.taker) b w.takes_turned.place take w.take c.taker.taps.falling.1
        (subst (λ x. HasEnd (takes_of x) b take) (ap (λ n. slice_index_or old n c.taker) t ∙ c.takes c.taker) (ran.take_end c.taker)) w.takes_turned.at in
        record {
          rest = w.closes.rest;
          legal = subst (λ (z : ℕ × Window × Window). Legal z.0 w.closes.rest z.1.opening z.1.answers z.2.answers)
              (λ i. ((ap (λ (v : Window). capacity_of v.queue) (sym p) ∙ ran.capacity) i, sym p i, sym q i)) w.closes.legal;
          opens = record {
            queue = w.put.queue;
            capacity = ap (λ (v : Window). capacity_of v.queue) (sym p) ∙ ran.capacity;
            put = λ d. subst (λ (x : Task S (ThreadTaps R)). HasEnd (puts_of x) b (opened w.put.queue w.closes.rest)) (sym (ap (λ n. slice_index_or new n d) f ∙ at_from d))
                (subst (λ v. HasEnd (puts_of c.next_giver) b v) w.closes.puts_next (turned_here _ _ _ _ _ w.puts_turned));
            take = λ d. subst (λ (x : Task S (ThreadTaps R)). HasEnd (takes_of x) b (opened w.put.queue w.closes.rest)) (sym (ap (λ n. slice_index_or new n d) t ∙ at_to d))
                (subst (λ v. HasEnd (takes_of c.next_taker) b v) w.closes.takes_next (turned_here _ _ _ _ _ w.takes_turned));
          };
        }

    -- the answers of the window are those of its two ends
    pub log_is : (wire : Wire) (put take : Window) → wire.from ≡ from → wire.to ≡ to → JoinRan wire b put take old → log ≡ told_of (put.answers, take.answers)
    log_is wire put take f t ran =
        let w = c.tasks.closed in
        let p : put ≡ w.put = one_window (puts_of c.giver) b w.puts_turned.place put w.put c.giver.taps.falling.0
        (subst (λ x. HasEnd (puts_of x) b put) (ap (λ n. slice_index_or old n c.giver) f ∙ c.gives c.giver) (ran.put_end c.giver)) w.puts_turned.at in
        let q : take ≡ w.take = one_window (takes_of c.taker) b w.takes_turned.place take w.take c.taker.taps.falling.1
        (subst (λ x. HasEnd (takes_of x) b take) (ap (λ n. slice_index_or old n c.taker) t ∙ c.takes c.taker) (ran.take_end c.taker)) w.takes_turned.at in
        let a : log.puts ≡ map is_chunk put.answers = w.log_puts ∙ ap (λ (v : Window). map is_chunk v.answers) (sym p) in
        let e : log.takes ≡ map is_chunk take.answers = w.log_takes ∙ ap (λ (v : Window). map is_chunk v.answers) (sym q) in
        (λ i. record { puts = a i; takes = e i })

    pub ran_else : (wire : Wire) (x : ℕ) (put take : Window) → x ≢ b → JoinRan wire x put take old → JoinRan wire x put take new
    ran_else wire x put take n ran = record {
      capacity = ran.capacity;
      queue = ran.queue;
      put_end = λ d. puts_else x put n wire.from d (ran.put_end d);
      take_end = λ d. takes_else x take n wire.to d (ran.take_end d);
    }

    pub turned_else : (wire : Wire) (x : ℕ) (put take : Window) → x ≢ b → JoinTurned wire x put take old → JoinTurned wire x put take new
    turned_else wire x put take n t = record {
      rest = t.rest;
      legal = t.legal;
      opens = record {
        queue = t.opens.queue;
        capacity = t.opens.capacity;
        put = λ d. puts_else x (opened t.opens.queue t.rest) n wire.from d (t.opens.put d);
        take = λ d. takes_else x (opened t.opens.queue t.rest) n wire.to d (t.opens.take d);
      };
    }

  -- the windows of the buffers below `below` were closed
  pub record Closing (wires : List Wire) (below : ℕ) (first now : List (Task S (ThreadTaps R))) : Type 0 where
    pub tasks : SameTasks first now
    pub done : (b : ℕ) (put take : Window) → b < below → (wire_at wires b).from ≢ (wire_at wires b).to → JoinRan (wire_at wires b) b put take first → JoinTurned (wire_at wires b) b put take now
    pub todo : (b : ℕ) (put take : Window) → below ≤ b → JoinRan (wire_at wires b) b put take first → JoinRan (wire_at wires b) b put take now

  pub closing_none : (wires : List Wire) (first : List (Task S (ThreadTaps R))) → Closing wires 0 first first
  closing_none wires first = record { tasks = same_tasks_refl first; done = λ b put take less n ran. absurd (omega (arith, less)); todo = λ b put take h ran. ran }

  pub closing_skip : (wires : List Wire) (below : ℕ) (first now : List (Task S (ThreadTaps R))) → (wire_at wires below).from ≡ (wire_at wires below).to → Closing wires below first now → Closing wires (below + 1) first now
  closing_skip wires below first now local c = record {
    tasks = c.tasks;
    done = λ b put take less n ran. (elim (same_or_other b below) [ inl e ↦ absurd (n (subst (λ x. (wire_at wires x).from ≡ (wire_at wires x).to) (sym e) local)) | inr off ↦ c.done b put take (omega (arith, less, off)) n ran ]);
    todo = λ b put take h ran. c.todo b put take (omega (arith, h)) ran;
  }

  pub closing_more : (wires : List Wire) (below : ℕ) (first now new : List (Task S (ThreadTaps R))) (log : Answers) → (wire_at wires below).from < length now → (wire_at wires below).to < length now
      → (wire_at wires below).from ≢ (wire_at wires below).to → Closing wires below first now → JoinClosed (wire_at wires below).from (wire_at wires below).to below now new log → Closing wires (below + 1) first new
  closing_more wires below first now new log f t apart c j =
      let wire = wire_at wires below in
      record {
        tasks = same_tasks_then first now new c.tasks (closed_same wire.from wire.to below now new log f t apart j);
        done = λ b put take less n ran. (elim (same_or_other b below) [
          | inl e ↦ subst (λ x. JoinRan (wire_at wires x) x put take first → JoinTurned (wire_at wires x) x put take new) (sym e)
              (λ r. closed_here wire.from wire.to below now new log f t apart j wire put take refl refl (c.todo below put take (omega arith) r)) ran
          | inr off ↦ turned_else wire.from wire.to below now new log f t apart j (wire_at wires b) b put take off (c.done b put take (omega (arith, less, off)) n ran)
        ]);
        todo = λ b put take h ran. ran_else wire.from wire.to below now new log f t apart j (wire_at wires b) b put take (λ e. omega (arith, h, e)) (c.todo b put take (omega (arith, h)) ran);
      }

  -- both ends are there, of one queue
  pub ends_there : (wire : Wire) (b : ℕ) (put take : Window) (tasks : List (Task S (ThreadTaps R))) → JoinRan wire b put take tasks → (d e : Task S (ThreadTaps R))
      → HaveEnds (puts_of (slice_index_or tasks wire.from d)) (takes_of (slice_index_or tasks wire.to e)) b
  ends_there wire b put take tasks ran d e = record { put = put; take = take; puts_there = ran.put_end d; takes_there = ran.take_end e; queue = sym ran.queue }

  pub join_closed : (tasks after : List (Task S (ThreadTaps R))) (from to b : ℕ) (log : Answers) (lender giver back : Task S (ThreadTaps R)) (takes takes' : List Side) → from < length tasks → to < length tasks → from ≢ to
      → after ≡ set (set (set tasks to lender) from giver) to back
      → ((d : Task S (ThreadTaps R)) → WasLent (slice_index_or tasks to d) lender takes)
      → ((d : Task S (ThreadTaps R)) → GiverClosed b (slice_index_or (set tasks to lender) from d) giver takes takes' log)
      → ((d : Task S (ThreadTaps R)) → WasPutBack (slice_index_or (set (set tasks to lender) from giver) to d) back takes')
      → JoinClosed from to b tasks after log
  join_closed tasks after from to b log lender giver back takes takes' f t n is lent gave put =
      let d = back in
      let x = slice_index_or tasks from d in let y = slice_index_or tasks to d in
      let at_giver : slice_index_or (set tasks to lender) from d ≡ x = get_or-set_other tasks to from lender d n in
      let long : to < length (set tasks from giver) = omega (arith, t, length-set tasks from giver) in
      let swap : set (set tasks to lender) from giver ≡ set (set tasks from giver) to lender = swapped tasks to from lender giver (λ e. n (sym e)) in
      let at_back : slice_index_or (set (set tasks to lender) from giver) to d ≡ lender = ap (λ l. get_or l to d) swap ∙ get_or-set_same (set tasks from giver) to lender d long in
      let l = lent d in
      let g : GiverClosed b x giver takes takes' log = subst (λ z. GiverClosed b z giver takes takes' log) at_giver (gave d) in
      let p : WasPutBack lender back takes' = subst (λ z. WasPutBack z back takes') at_back (put d) in
      record {
        giver = x;
        taker = y;
        gives = λ e. get_or_default tasks from e d f;
        takes = λ e. get_or_default tasks to e d t;
        next_giver = giver;
        next_taker = back;
        are = is ∙ ap (λ l. set l to back) swap ∙ set_twice (set tasks from giver) to lender back;
        tasks = record {
          giver_same = g.same;
          taker_same = record { engine = p.same.engine ∙ l.same.engine; local = p.same.local ∙ l.same.local };
          giver_takes = g.takes_kept;
          taker_puts = p.puts ∙ l.puts;
          closed = subst (λ (z : List Side × List Side). WasClosed b (puts_of x) (puts_of giver) z.0 z.1 log) (λ i. (l.lent i, sym p.back i)) g.closed;
        };
      }
