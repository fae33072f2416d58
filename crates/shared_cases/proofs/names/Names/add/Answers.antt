use Rattle.std.proofs.Common.{◌≡◌, ℕ, inl, inr, Some, refl, ap, sym, subst, ◌∙◌}
use Rattle.std.specs.declared.option.Option.{Option}
use Rattle.std.specs.FinMap.{FinMap, insert}
use Rattle.std.specs.Option.{IfSome, IfNone}
use Rattle.std.specs.Ordering.{nat_cmp}
use Rattle.shared_cases.specs.declared.case_name.CaseName.{CaseName}
use Rattle.shared_cases.specs.Names.{word_of}
use Rattle.shared_cases.specs.Naming.{worded, SetsWord}
use Rattle.shared_cases.proofs.NamingLemmas.{twin_set, word_set}
use Rattle.shared_cases.proofs.names.Names.add.Goals as goal

pub returns-in-None : goal.returns-in-None
returns-in-None c =
    let word_is : c.args.name.word ≡ word_of c.args.name.asn c.args.name.trail = ap (λ (name : CaseName). name.word) c.requires in
    let put : c.put_if_absent.new.self ≡ insert c.args.self.now.words c.args.name.word c.args.number =
    subst (λ (o : Option ℕ). IfNone o (c.put_if_absent.new.self ≡ insert c.args.self.now.words c.args.name.word c.args.number)) c.in-None.is
    c.in_ok-put_if_absent.ensures.none in
    inl (record {
      free = ap (worded c.args.self.now.words) (sym word_is) ∙ sym c.in_ok-put_if_absent.ensures.before ∙ c.in-None.is;
      sets = subst (λ (words : FinMap nat_cmp ℕ). SetsWord c.args.self.now.words words (word_of c.args.name.asn c.args.name.trail) (Some c.args.number))
          (ap (λ (word : ℕ). insert c.args.self.now.words word c.args.number) (sym word_is) ∙ sym put)
          (word_set c.args.self.now.words (word_of c.args.name.asn c.args.name.trail) c.args.number);
      twins = λ asn path. refl;
    })

pub returns-in_ok-insert-in-Some : goal.returns-in_ok-insert-in-Some
returns-in_ok-insert-in-Some c =
    let word_is : c.args.name.word ≡ word_of c.args.name.asn c.args.name.trail = ap (λ (name : CaseName). name.word) c.requires in
    let same : c.put_if_absent.new.self ≡ c.args.self.now.words =
    subst (λ (o : Option ℕ). IfSome o (λ _. c.put_if_absent.new.self ≡ c.args.self.now.words)) c.in-Some.is c.in_ok-put_if_absent.ensures.some in
    inr (record {
      first = c.in-Some.field-0;
      held = ap (worded c.args.self.now.words) (sym word_is) ∙ sym c.in_ok-put_if_absent.ensures.before ∙ c.in-Some.is;
      words = λ w. ap (λ (words : FinMap nat_cmp ℕ). worded words w) same;
      sets = twin_set c.args.self.now.twins.entries c.insert.new.self.entries c.args.name (Some c.args.number) c.requires c.in_ok-insert-in-Some.ensures.updates.0;
    })
