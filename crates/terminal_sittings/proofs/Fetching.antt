-- What a keyboard is asked for beside what it tells.
use Rattle.std.proofs.Common.{◌≡◌, ℕ, Bool, true, false, List, [], ◌++◌, Option, Some, None, sym, subst, append-nil}
use Rattle.terminal_keyboard.specs.declared.completion.Completion.{Completion}
use Rattle.terminal_keyboard.specs.Hearings.{asked_rest}
use Rattle.terminal_sittings.specs.Serving.{asking_rest}

module _ (asked : List ℕ) (told : Completion) where
  -- no name is to go on
  pub none_wanted : (completes : Bool) (name : Option (List ℕ)) → completes ≡ false
      → asked ≡ asked ++ asking_rest completes name told
  none_wanted completes name is =
      subst (λ (b : Bool). asked ≡ asked ++ asking_rest b name told) (sym is) (sym (append-nil asked))

  -- none is asked for
  unnamed : (completes : Bool) → asked ≡ asked ++ asking_rest completes None told
  unnamed true = sym (append-nil asked)
  unnamed false = sym (append-nil asked)

  pub none_asked : (completes : Bool) (name : Option (List ℕ)) → name ≡ None
      → asked ≡ asked ++ asking_rest completes name told
  none_asked completes name is =
      subst (λ (o : Option (List ℕ)). asked ≡ asked ++ asking_rest completes o told) (sym is) (unnamed completes)

  -- this one is
  pub one_asked : (completes : Bool) (name : Option (List ℕ)) (bytes asked' : List ℕ) → completes ≡ true → name ≡ Some bytes
      → asked' ≡ asked ++ asked_rest bytes told → asked' ≡ asked ++ asking_rest completes name told
  one_asked completes name bytes asked' is some grown =
      subst (λ (b : Bool). asked' ≡ asked ++ asking_rest b name told) (sym is)
      (subst (λ (o : Option (List ℕ)). asked' ≡ asked ++ asking_rest true o told) (sym some) grown)
