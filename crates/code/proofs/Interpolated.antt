-- What decoding finds in what it is handed.
use Prim.Native.Nat.{ℕ, ◌<◌}
use mathlib.Core.Path.{◌≡◌}
use mathlib.Core.List.{List}
use native.Mathlib.Omega.{arith}
use lib.ListN.{length, replicate, length-replicate, get_or-replicate}
use Rattle.config.specs.declared.Config.{Config}
use Rattle.code.specs.inner.Calls.{DecodePre}
use Rattle.code.specs.inner.Lanes.{InvertPre}
use Rattle.code.specs.inner.Rows.{RowsPre}
use Rattle.code.specs.inner.Table.{place, Ready}
use Rattle.code.proofs.Lent.{lent_row, lent_row_length}
use Rattle.code.proofs.Rising as rise

module _ (cfg : Config) (servers : List ℕ) (elements buffer : ℕ) (d : DecodePre cfg servers elements buffer) where
  pub usable : InvertPre cfg.k servers
  usable =
      record {
        low = d.valid.k_low;
        high = omega (arith, d.valid.k_high, d.valid.n_high);
        enough = d.enough;
        server_high = λ r h.
            omega (arith, rise.rising_high cfg.n 0 servers d.rises r (omega (arith, d.enough)), d.valid.n_high);
      }

module _ (cfg : Config) (rows : List (List ℕ)) (elements : List ℕ) (buffer : ℕ) (d : RowsPre cfg rows (length elements) buffer) where
  pub element_part : (r : ℕ) → r < cfg.k → length (lent_row cfg.e elements r) ≡ cfg.e
  element_part r h = lent_row_length cfg.k cfg.e r elements h d.enough

-- a table of zeros is ready
pub ready_clear : Ready (replicate 1024 0)
ready_clear =
    record {
      size = length-replicate {A = ℕ} 1024 0;
      clear = λ d j hd hj. get_or-replicate {A = ℕ} 1024 (place d 0 j) 0 0 (omega arith);
    }
