pub mod StarterDesktop
