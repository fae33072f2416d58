use Rattle.std.proofs.Common.{◌≡◌, ℕ, inl, inr, None, refl, ap, sym, subst, ◌∙◌, true≢false}
use Rattle.std.specs.FinMap.{FinMap, remove}
use Rattle.std.specs.Ordering.{nat_cmp}
use Rattle.shared_cases.specs.declared.case_name.CaseName.{CaseName}
use Rattle.shared_cases.specs.Names.{word_of}
use Rattle.shared_cases.specs.Naming.{worded, SetsWord}
use Rattle.shared_cases.proofs.NamingLemmas.{twin_set, word_freed}
use Rattle.shared_cases.proofs.names.Names.remove.Goals as goal

pub returns-then-has_word : goal.returns-then-has_word
returns-then-has_word c =
    let word_is : c.args.name.now.word ≡ word_of c.args.name.now.asn c.args.name.now.trail = ap (λ (name : CaseName). name.word) c.requires in
    inl (record {
      held = ap (worded c.args.self.now.words) (sym word_is) ∙ c.has_word.ensures.0 c.if-has_word.true;
      sets = subst (λ (words : FinMap nat_cmp ℕ). SetsWord c.args.self.now.words words (word_of c.args.name.now.asn c.args.name.now.trail) None)
          (ap (remove c.args.self.now.words) (sym word_is) ∙ sym c.remove.ensures.removed)
          (word_freed c.args.self.now.words (word_of c.args.name.now.asn c.args.name.now.trail));
      twins = λ asn path. refl;
    })

pub returns-else-has_word : goal.returns-else-has_word
returns-else-has_word c =
    let word_is : c.args.name.now.word ≡ word_of c.args.name.now.asn c.args.name.now.trail = ap (λ (name : CaseName). name.word) c.requires in
    inr (record {
      other = λ held. true≢false (sym (c.has_word.ensures.1 (ap (worded c.args.self.now.words) word_is ∙ held)) ∙ c.if-has_word.false);
      words = λ w. refl;
      sets = twin_set c.args.self.now.twins.entries c.remove-else-has_word.new.self.entries c.args.name.now None c.requires c.remove-else-has_word.ensures.updates.0;
    })
