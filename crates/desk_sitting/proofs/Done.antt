-- Presses that are done, one after another.
use Rattle.std.proofs.Common.{◌≡◌, ℕ, false, List, [], ◌∷◌, ◌++◌, Result, Ok, Err, refl, sym, ◌∙◌, ap, subst}
use Rattle.std.proofs.Common.{append_assoc, append-nil, ◌+◌, ◌<◌, length, get_or, take, drop}
use Rattle.std.proofs.lemmas.List.{take_more, take-append-drop}
use Rattle.std.proofs.lemmas.Result.{on_ok_weaker, IfErr-weaker}
use Rattle.sector_disk.specs.declared.disk.Disk.{Ghosts}
use Rattle.sector_disk.specs.Faults.{FailsAs}
use Rattle.desk_journal.specs.Errors.{Error, Fault}
use Rattle.desk_journal.specs.View.{StoreView, IsDurable}
use Rattle.terminal_presses.specs.declared.press.Heard.{Heard}
use Rattle.terminal_presses.specs.declared.press.Press.{Press}
use Rattle.terminal_presses.specs.declared.press.Presses.{Presses}
use Rattle.terminal_keyboard.specs.declared.parser.Parser.{Parser}
use Rattle.terminal_keyboard.specs.Presses.{heard_by, in_order, parser_after, presses_heard}
use Rattle.terminal_keyboard.proofs.Pieces.{parser_of_both, pressed_of_both}
use Rattle.desk_sitting.specs.declared.sitting.Sitting.{Sitting}
use Rattle.desk_sitting.specs.Sittings.{accepted_of, after_press}
use Rattle.desk_sitting.specs.Doing.{seat_of, OfPresses, DoesPress, DoesPresses, none, one_more, Breaks, DoesAllPresses}
use Rattle.desk_sitting.specs.TheDesk.{the_desk}

-- ---- one thing more is heard

module _ (parser now : Parser) (hearing : List Heard) (i : ℕ) (filler : Heard) (room : i < length hearing)
    (is : now ≡ parser_after parser (take i hearing)) where
  abbrev heard : Heard
  heard = get_or hearing i filler

  pub parser_next : (next : Parser) → next ≡ (heard_by now heard).0 → next ≡ parser_after parser (take (i + 1) hearing)
  parser_next next made = made ∙ ap (λ p. (heard_by p heard).0) is
      ∙ sym (parser_of_both parser (take i hearing) (heard ∷ []))
      ∙ ap (parser_after parser) (sym (take_more hearing i filler room))

  pressed_next : (presses : Presses) → presses ≡ (heard_by now heard).1
      → presses_heard parser (take i hearing) ++ in_order presses ≡ presses_heard parser (take (i + 1) hearing)
  pressed_next presses made =
      ap (λ l. presses_heard parser (take i hearing) ++ l)
      (ap in_order (made ∙ ap (λ p. (heard_by p heard).1) is) ∙ sym (append-nil _))
      ∙ sym (pressed_of_both parser (take i hearing) (heard ∷ []))
      ∙ ap (presses_heard parser) (sym (take_more hearing i filler room))

module _ {D : Type 0} (d : Ghosts D) where
  -- ---- presses, one after another

  -- presses are done, and then others from there
  does_both : {first second : List Press} {s s' s'' : Sitting} {old mid new : StoreView D}
      → DoesPresses the_desk d first s s' old mid → DoesPresses the_desk d second s' s'' mid new
      → DoesPresses the_desk d (first ++ second) s s'' old new
  does_both {first = first} {s = s} {s' = s'} {old = old} {mid = mid} one none =
      subst (λ presses. DoesPresses the_desk d presses s s' old mid) (sym (append-nil first)) one
  does_both {first = first} {s = s} {s'' = s''} {old = old} {new = new} one (one_more {presses = more} press two done) =
      subst (λ presses. DoesPresses the_desk d presses s s'' old new) (append_assoc first more (press ∷ []))
      (one_more press (does_both one two) done)

  -- a crash leaves what the store shows, as it did before
  does_last : {presses : List Press} {s s' : Sitting} {old new : StoreView D} → DoesPresses the_desk d presses s s' old new
      → IsDurable d old → IsDurable d new
  does_last none durable = durable
  does_last (one_more press before done) durable = done.goes.durable

  breaks_both : {error : Error} {first second : List Press} {s s' : Sitting} {old mid new : StoreView D}
      → DoesPresses the_desk d first s s' old mid → Breaks the_desk d error second s' mid new
      → Breaks the_desk d error (first ++ second) s old new
  breaks_both {first = first} one broke = record {
    done = first ++ broke.done;
    press = broke.press;
    rest = broke.rest;
    parts = ap (λ l. first ++ l) broke.parts ∙ sym (append_assoc first broke.done (broke.press ∷ broke.rest));
    sitting = broke.sitting;
    mid = broke.mid;
    does = does_both one broke.does;
    undone = broke.undone;
  }

  -- more is pressed, and isn't done
  breaks_before : (more : List Press) {error : Error} {presses : List Press} {s : Sitting} {old new : StoreView D}
      → Breaks the_desk d error presses s old new → Breaks the_desk d error (presses ++ more) s old new
  breaks_before more broke = record {
    done = broke.done;
    press = broke.press;
    rest = broke.rest ++ more;
    parts = ap (λ l. l ++ more) broke.parts ∙ append_assoc broke.done (broke.press ∷ broke.rest) more;
    sitting = broke.sitting;
    mid = broke.mid;
    does = broke.does;
    undone = broke.undone;
  }

  -- ---- calls, one after another

  pub none_taken : (s : Sitting) (store : StoreView D) → store.must_reopen ≡ false
      → DoesAllPresses the_desk d {T = Unit} [] (Ok tt) s s store store
  none_taken s store usable = record {
    done = λ honest durable. none;
    broke = tt;
    usable = usable;
    faults = record { rose = λ wrong. absurd (cc wrong); calm = λ other. refl; errors = tt };
    device = record { as_large = refl; still = λ honest. honest; already = λ honest. honest };
  }

  pub one_taken : {T : Type 0} (press : Press) (result : Result T Error) (s s' : Sitting) (old new : StoreView D)
      → DoesPress d (accepted_of press (seat_of s old)) (after_press press (seat_of s old)) result s' old new
      → DoesAllPresses the_desk d (press ∷ []) result s s' old new
  one_taken press result s s' old new takes = record {
    done = on_ok_weaker result (λ done honest durable. one_more press none (done honest durable)) takes.done;
    broke = IfErr-weaker result _ _ (λ error undone honest durable. record {
      done = [];
      press = press;
      rest = [];
      parts = refl;
      sitting = s;
      mid = old;
      does = none;
      undone = undone honest durable;
    }) takes.undone;
    usable = takes.usable;
    faults = takes.faults;
    device = takes.device;
  }

  -- a call that did its presses, and then one that may fail
  pub both_taken : {T U : Type 0} {first second : List Press} {x : U} {result : Result T Error} {s s' s'' : Sitting}
      {old mid new : StoreView D} → DoesAllPresses the_desk d first (Ok x) s s' old mid
      → DoesAllPresses the_desk d second result s' s'' mid new
      → DoesAllPresses the_desk d (first ++ second) result s s'' old new
  both_taken {result = result} {new = new} one two = record {
    done = on_ok_weaker result (λ done honest durable.
        let before = one.done honest durable in
        does_both before (done (one.device.still honest) (does_last before durable))) two.done;
    broke = IfErr-weaker result _ _ (λ error broke honest durable.
        let before = one.done honest durable in
        breaks_both before (broke (one.device.still honest) (does_last before durable))) two.broke;
    usable = two.usable;
    faults = subst (λ n. FailsAs Fault OfPresses result n (d.failures new.disk))
        (one.faults.calm (λ wrong. cc)) two.faults;
    device = record {
      as_large = two.device.as_large ∙ one.device.as_large;
      still = λ honest. two.device.still (one.device.still honest);
      already = λ honest. one.device.already (two.device.already honest);
    };
  }

  -- a call that failed, where more was pressed
  pub rest_left : {T : Type 0} (more : List Press) {error : Error} {presses : List Press} {s s' : Sitting}
      {old new : StoreView D} → DoesAllPresses the_desk d {T = T} presses (Err error) s s' old new
      → DoesAllPresses the_desk d {T = T} (presses ++ more) (Err error) s s' old new
  rest_left more takes = record {
    done = tt;
    broke = λ honest durable. breaks_before more (takes.broke honest durable);
    usable = tt;
    faults = takes.faults;
    device = takes.device;
  }

  -- ---- what was heard

  -- a call that failed, where more was heard
  rest_unheard : {T : Type 0} (parser : Parser) (hearing : List Heard) (n : ℕ) {error : Error} {s s' : Sitting}
      {old new : StoreView D} → DoesAllPresses the_desk d {T = T} (presses_heard parser (take n hearing)) (Err error) s s' old new
      → DoesAllPresses the_desk d {T = T} (presses_heard parser hearing) (Err error) s s' old new
  rest_unheard {T = T} parser hearing n {error = error} {s = s} {s' = s'} {old = old} {new = new} takes =
      subst (λ l. DoesAllPresses the_desk d {T = T} l (Err error) s s' old new)
      (sym (pressed_of_both parser (take n hearing) (drop n hearing))
      ∙ ap (presses_heard parser) (take-append-drop n hearing))
      (rest_left (presses_heard (parser_after parser (take n hearing)) (drop n hearing)) takes)

  -- what one thing more that is heard comes to, after all that was heard before it
  module _ (parser now : Parser) (hearing : List Heard) (i : ℕ) (filler : Heard) (presses : Presses)
      {s s' s'' : Sitting} {old mid new : StoreView D} where
    pub next_taken : (result : Result Unit Error) → i < length hearing → now ≡ parser_after parser (take i hearing)
        → presses ≡ (heard_by now (get_or hearing i filler)).1
        → DoesAllPresses the_desk d {T = Unit} (presses_heard parser (take i hearing)) (Ok tt) s s' old mid
        → DoesAllPresses the_desk d (in_order presses) result s' s'' mid new
        → DoesAllPresses the_desk d (presses_heard parser (take (i + 1) hearing)) result s s'' old new
    next_taken result room is made before here = subst (λ l. DoesAllPresses the_desk d l result s s'' old new)
        (pressed_next parser now hearing i filler room is presses made) (both_taken before here)

    pub next_broken : {error : Error} → i < length hearing → now ≡ parser_after parser (take i hearing)
        → presses ≡ (heard_by now (get_or hearing i filler)).1
        → DoesAllPresses the_desk d {T = Unit} (presses_heard parser (take i hearing)) (Ok tt) s s' old mid
        → DoesAllPresses the_desk d {T = Unit} (in_order presses) (Err error) s' s'' mid new
        → DoesAllPresses the_desk d {T = Unit} (presses_heard parser hearing) (Err error) s s'' old new
    next_broken {error = error} room is made before here =
        rest_unheard parser hearing (i + 1) (next_taken (Err error) room is made before here)
