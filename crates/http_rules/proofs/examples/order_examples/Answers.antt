use Rattle.std.proofs.Common.{List, [], ◌∷◌, ◌<◌, ◌++◌, codes, refl, inl, inr, lit<}
use Rattle.http_rules.proofs.examples.order_examples.Goals as goal
use Rattle.http_rules.specs.TemplateOrder.{StandBefore, front_rank}
use Rattle.http_rules.specs.declared.template.Segment.{Segment}
use Rattle.http_rules.specs.declared.template.Segment.TheVariants.{Literal, One, Rest}

-- behind the same front, what comes first decides
decided_behind : (alike more others : List Segment) → front_rank more < front_rank others
    → StandBefore (alike ++ more) (alike ++ others)
decided_behind alike more others h =
    record { alike = alike; more = more; others = others; first_is = refl; second_is = refl; differ = h }

pub returns : goal.returns
returns c = record {
  verb = inl (lit< tt);
  end_literal = inr (refl, decided_behind (Literal (codes "a") ∷ []) [] (Literal (codes "b") ∷ []) (lit< tt));
  end_one = inr (refl, decided_behind (Literal (codes "a") ∷ []) [] (One ∷ []) (lit< tt));
  end_rest = inr (refl, decided_behind (Literal (codes "a") ∷ []) [] (Rest ∷ []) (lit< tt));
  literal_one =
      inr (refl, decided_behind (Literal (codes "a") ∷ []) (Literal (codes "b") ∷ []) (One ∷ []) (lit< tt));
  literal_rest =
      inr (refl, decided_behind (Literal (codes "a") ∷ []) (Literal (codes "b") ∷ []) (Rest ∷ []) (lit< tt));
  one_rest = inr (refl, decided_behind (Literal (codes "a") ∷ []) (One ∷ []) (Rest ∷ []) (lit< tt));
  position =
      inr (
        refl,
        decided_behind [] (Literal (codes "a") ∷ One ∷ One ∷ []) (One ∷ Literal (codes "b") ∷ [])
            (lit< tt),
      );
}
